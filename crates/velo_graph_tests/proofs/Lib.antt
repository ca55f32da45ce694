mod OnRising
