pub mod WorldLines
