mod Ascii
mod Encoded
mod Sets
mod Files
mod Record
