pub mod DisplayCalls
