mod Parts
mod Rows
