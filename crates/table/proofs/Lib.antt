mod Tests
mod Trees
mod Notes
mod Chain
