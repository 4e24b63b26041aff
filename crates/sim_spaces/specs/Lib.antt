pub mod ProgramSpaces
