pub mod Classes
pub mod Forms
pub mod Args
pub mod Filters
pub mod Expr
pub mod Rewrites
pub mod Grammar
pub mod Ends
