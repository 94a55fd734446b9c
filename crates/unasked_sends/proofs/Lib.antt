mod Bounded
