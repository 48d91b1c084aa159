mod Left
mod Masks
