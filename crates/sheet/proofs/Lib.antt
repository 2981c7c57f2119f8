mod Entering
mod Framing
mod Used
