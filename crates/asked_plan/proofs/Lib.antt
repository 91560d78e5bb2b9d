mod Branches
mod Choices
mod Questions
