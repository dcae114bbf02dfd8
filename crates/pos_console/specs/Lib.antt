pub mod Program
pub mod Service
pub mod Surveys
pub mod TotalsRuns
