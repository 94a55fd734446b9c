pub mod Wellness
