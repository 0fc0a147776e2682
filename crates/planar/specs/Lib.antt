pub mod Planar
