pub mod Going
pub mod Turning
pub mod Tops
pub mod Makings
