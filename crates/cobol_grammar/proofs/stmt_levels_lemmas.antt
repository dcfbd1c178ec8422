pub mod NestingLevels
