mod Showing
mod Streamed
