pub mod Giving
pub mod InletStart
