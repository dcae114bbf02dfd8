mod GateLemmas
mod OpenGateLemmas
mod ValueLemmas
