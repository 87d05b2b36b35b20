mod Numbers
mod Pairs
mod Readings
mod ReadColors
mod ReadHeaders
mod ReadParams
