mod Rings
mod Tape
mod Cases
