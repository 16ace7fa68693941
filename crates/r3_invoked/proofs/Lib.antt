mod Owed
mod Fitting
mod Told
mod LinesRead
