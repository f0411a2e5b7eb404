mod Beyond
mod Captures
mod Drawing
mod Ending
mod Asked
mod Reasons
mod Reporting
mod Handing
