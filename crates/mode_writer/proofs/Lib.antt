mod Answered
mod Numbers
mod Yielded
