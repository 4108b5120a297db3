mod Currents
