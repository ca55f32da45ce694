mod OnWaits
