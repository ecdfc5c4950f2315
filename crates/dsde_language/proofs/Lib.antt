mod Numbers
mod Texts
