pub mod Courses
pub mod DrivenPeripherals
pub mod Papers
pub mod Previews
