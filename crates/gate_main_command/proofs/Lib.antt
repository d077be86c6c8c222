mod Named
mod Sendings
mod Told
