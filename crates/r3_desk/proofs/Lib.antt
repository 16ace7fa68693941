mod Kept
mod Replay
mod Crashes
mod Shelved
