mod Joins
mod Paths
mod Printed
mod Reading
mod Selections
mod Sizes
