mod Borders
mod Times
mod RunWords
mod Rows
mod Worked
