-- How the words of a card are written piece after piece.
mod Written
