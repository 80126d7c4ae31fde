-- Laws of filing.
mod Filing
