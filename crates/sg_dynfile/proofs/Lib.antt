mod Names
mod Composed
mod Under
mod Over
mod Going
mod Opened
