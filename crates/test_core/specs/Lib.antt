pub mod NothingTold
