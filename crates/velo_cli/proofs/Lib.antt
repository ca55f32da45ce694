mod OnExplaining
mod OnFindings
mod OnWatching
