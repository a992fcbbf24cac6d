pub mod Opcodes
