mod Chains
mod Nearest
mod Shares
mod There
