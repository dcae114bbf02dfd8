pub mod PrinterCalls
pub mod Requests
