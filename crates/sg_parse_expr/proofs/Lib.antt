pub mod CallLaws
pub mod ExprLaws
pub mod RewriteLaws
