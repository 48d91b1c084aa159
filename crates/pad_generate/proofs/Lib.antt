mod Receiving
