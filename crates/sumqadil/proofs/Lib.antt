mod Alike
mod Lent
mod Listed
mod Numbers
