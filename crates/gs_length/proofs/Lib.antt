mod Bytes
mod TreeLength
mod Parts
mod Length
mod Printed
