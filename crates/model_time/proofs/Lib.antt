mod Leaving
mod Recording
mod Timing
