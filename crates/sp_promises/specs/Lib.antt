pub mod WorldRuns
