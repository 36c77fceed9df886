mod Listed
mod Modelled
