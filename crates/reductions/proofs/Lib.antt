pub mod NanPatterns
