pub mod ScannerCalls
