mod Cans
mod Numbers
mod Placed
mod Planes
