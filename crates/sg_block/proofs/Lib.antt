pub mod Names
pub mod Lists
pub mod Closing
pub mod Within
pub mod Arguing
pub mod Replacing
pub mod Formed
pub mod Commas
