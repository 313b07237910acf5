mod Alone
mod Bound
mod Sets
