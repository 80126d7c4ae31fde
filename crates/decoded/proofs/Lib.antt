-- Laws of a role table's bytes and of what they stand for, for the crates above.
-- what each number tests, on all bytes
pub mod Tests
pub mod LeastFault
pub mod Naming
pub mod Binding
pub mod Scoping
-- what 1 to 5 leave
pub mod Listed
pub mod Passed
pub mod Ranges
pub mod Shapes
pub mod EntryTests
pub mod Holding
pub mod Steps
pub mod Sorts
pub mod Written
-- what 6 to 9 leave
pub mod Checked
pub mod Unlike
pub mod Reach
pub mod Passes
-- what the translation and the judge need of all that
pub mod Tabled
-- the values of a trace; number 6 of both files; examples
pub mod ValueLaws
pub mod TraceValues
pub mod Repeated
pub mod Examples
