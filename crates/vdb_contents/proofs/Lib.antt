mod Arrows
mod Lines
mod Pieces
mod Progress
mod Said
