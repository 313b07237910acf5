mod Counting
mod Each
mod Layering
mod Saying
