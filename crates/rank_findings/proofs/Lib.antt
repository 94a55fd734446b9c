mod Orders
mod Statuses
mod Weights
