mod Arrays
