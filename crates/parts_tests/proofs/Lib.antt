mod Named
mod Owning
