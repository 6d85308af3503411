mod Carried
mod Ended
mod Failing
mod Inputs
mod Explaining
mod ModuleObjects
