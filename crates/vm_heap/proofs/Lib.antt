mod Images
mod Cells
mod OwnWords
mod Tables
